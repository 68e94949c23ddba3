mod TurnLemmas
mod Shown
mod DeskLemmas
mod Progress
mod OneRun
mod OneText
mod Told
