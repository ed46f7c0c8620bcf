pub mod Latest
pub mod ProxyLaws
pub mod NodeLaws
