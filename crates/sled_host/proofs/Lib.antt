mod Outcomes
mod Steps
