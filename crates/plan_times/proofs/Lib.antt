mod PickLemmas
