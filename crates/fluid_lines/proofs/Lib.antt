mod Answers
mod Parts
