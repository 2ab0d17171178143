mod Prints
mod RecordedEnds
mod Records
mod Runs
