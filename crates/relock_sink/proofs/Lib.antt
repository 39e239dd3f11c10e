mod Fronts
mod Places
mod Judging
mod Refutes
mod Doubting
mod Rivalry
mod Refuters
