mod Adding
mod FirstEntries
mod SightLemmas
