mod ChangesLemmas
mod CodeLemmas
mod PrepareLemmas
mod RemarkLemmas
mod StartLemmas
