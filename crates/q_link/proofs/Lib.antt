mod HopsSteps
mod LinkSteps
mod Playbacks
mod Results
mod RouteReads
mod RouteRows
mod ScriptRows
mod ScriptWaits
pub mod Sparing
mod Telling
