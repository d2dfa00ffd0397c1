mod UserLemmas
