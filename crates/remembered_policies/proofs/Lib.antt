-- names, each once, and the first of them
mod Names
-- what entries leave of a lesson
mod Lessons
-- what a Recall is replied
mod Recalling
