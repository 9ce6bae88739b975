mod Atoms
mod Definitions
mod Drafts
mod Unfolded
