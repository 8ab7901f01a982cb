mod GivenPaths
mod Here
mod ItemHere
mod Kinded
mod Last
mod Steps
