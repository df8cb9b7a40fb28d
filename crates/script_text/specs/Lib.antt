pub mod ScriptLines
pub mod PercentTexts
