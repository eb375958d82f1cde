pub mod WatchLaws
