-- answers that no authorizer has part in
mod Free
-- an authorizer's answers
mod Telling
