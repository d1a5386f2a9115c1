mod LoadFacts
mod MadeKeys
mod MadeRecords
mod MadeRows
mod MadeTables
mod NumberLines
