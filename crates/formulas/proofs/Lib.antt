mod Deciding
mod Counted
mod Agreeing
mod Judged
