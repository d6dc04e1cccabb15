mod Places
mod Seats
mod Played
mod Kits
mod Picked
