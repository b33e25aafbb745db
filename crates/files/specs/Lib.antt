pub mod Grammar
pub mod Rules
pub mod Fields
pub mod Reading
pub mod Files
