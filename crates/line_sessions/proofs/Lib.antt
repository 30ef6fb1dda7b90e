mod Holding
mod Reading
mod Printing
mod Obeying
mod Living
mod Serving
