mod Framed
mod Lasting
mod Listed
mod AtNodes
mod Promised
mod Owners
mod Ruled
mod Outside
