mod Lines
mod Refusing
mod Walking
mod Numbering
mod TextsOnDisks
