mod Copied
mod Options
mod Firsts
