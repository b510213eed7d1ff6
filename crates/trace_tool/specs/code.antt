-- What the code of runs needs, which no one else has to read.
pub mod Streaming
