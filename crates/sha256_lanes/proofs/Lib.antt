mod KeyedRows
mod LaneByLane
mod Tails
mod Turns
