-- tables whose rows are taken one after another
mod Walks
-- lists that keep each item once, and the columns of variables
mod Onces
-- the stages of plans, and their column
mod Stages
-- deployments are numbered without gaps
mod Numbers
-- what is known of tables that a book starts from
mod Tables
-- a good row that is put
mod Puts
-- a join whose numbers were written
mod Joined
-- what events write is good
mod After
