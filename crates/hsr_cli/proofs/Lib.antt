pub mod PlayingFound
pub mod BenchFound
pub mod PlanFound
pub mod Refusing
