-- How many words parts and bodies are written with.
mod Counting
