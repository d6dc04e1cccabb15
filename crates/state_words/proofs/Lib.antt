pub mod StateLaw
