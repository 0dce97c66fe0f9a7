mod TakenNumbers
