mod AppendContent
mod Appending
mod Findings
mod Looking
mod NewGeneration
mod Places
mod HandedOut
