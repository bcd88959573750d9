mod PlacesLemmas
mod SearchedLemmas
mod TokenLemmas
