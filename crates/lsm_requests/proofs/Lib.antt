pub mod KeyBoundLaws
