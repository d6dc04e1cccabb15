mod Filtering
mod Picked
