-- the rule that is chosen
mod Chosen
-- lists of texts
mod Texts
-- renders over roots to which nothing was written
mod Renders
