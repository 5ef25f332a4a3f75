pub mod Examples
pub mod Codes
pub mod Worlds
pub mod Allowance
mod BadSchedules
mod PlainPath
mod NothingHappens
mod OutOfOrder
mod Repeats
mod NextView
mod FilledGap
mod TwoLeaders
mod TwoCrashes
mod NotRejoined
mod EndedPromise
mod EndedAnswer
mod RecoveringLeader
mod AnswerWords
mod CrashAndReturn
mod CrashAndCatchUp
mod BatchExamples
mod Summaries
