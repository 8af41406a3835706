mod Filled
mod Summed
