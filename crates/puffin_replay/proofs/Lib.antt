mod Statements
mod Scripts
mod CountedLines
mod Recording
mod StartWords
mod DueFrames
mod KeptFrames
mod Promises
