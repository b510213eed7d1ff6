-- What contracts need besides: what the code keeps and knows, and what runs of it are.
pub mod Sound
pub mod Keeps
pub mod Going
pub mod Answering
pub mod Lacking
