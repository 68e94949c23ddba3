mod Headers
mod Standing
mod VoidBytes
pub mod FrontFlaws
