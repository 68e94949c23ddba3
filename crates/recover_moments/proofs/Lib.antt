mod Worlds
