mod FoldLemmas
mod SlashLemmas
mod FindingLemmas
mod ZoneNamesLemmas
