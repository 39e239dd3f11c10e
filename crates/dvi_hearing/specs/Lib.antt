pub mod DviHeard
pub mod DviGains
pub mod DviGrammar
pub mod DviSeen
pub mod DviStands
pub mod Laws
