-- How two tiles are compared.
pub mod Outside
