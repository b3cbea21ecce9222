mod Collapsing
mod Ordering
mod Ranges
mod Settled
mod Thinning
mod Walking
