-- quotas and refusals over whole sessions
pub mod Quotas
