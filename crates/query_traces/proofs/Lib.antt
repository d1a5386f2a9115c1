mod TakenAgain
mod Texts
