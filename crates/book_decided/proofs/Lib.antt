mod Tids
mod Legal
