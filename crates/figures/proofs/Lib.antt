pub mod Figures
pub mod ZeroYears
pub mod ZeroSheets
pub mod ZeroSheetsAdjusted
