pub mod HashText
pub mod ListText
pub mod PutText
pub mod RecordText
pub mod LineCause
