mod Appending
mod Beginning
mod Images
mod ListBytes
mod Turns
