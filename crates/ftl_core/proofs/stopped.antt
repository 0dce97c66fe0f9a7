pub mod EachStop
