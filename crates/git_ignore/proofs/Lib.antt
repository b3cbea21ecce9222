mod Below
mod Deciding
mod Lines
mod Trimming
