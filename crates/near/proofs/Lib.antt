-- Laws that the proofs of functions cite.
mod Laying
mod Opening
mod Joining
mod Nearness
mod OnePass
