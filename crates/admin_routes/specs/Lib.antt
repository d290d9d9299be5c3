-- the routes
pub mod Routes
-- what a body asks for
pub mod Asked
-- the site whose page made a browser send a request
pub mod Origins
-- the answers
pub mod Answers
-- what a request asks of the book, or how it is answered
pub mod Orders
