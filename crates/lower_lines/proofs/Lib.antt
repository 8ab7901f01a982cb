mod Calls
mod Read
mod Sent
mod SoFar
